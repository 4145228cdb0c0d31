pub mod PamReadings
