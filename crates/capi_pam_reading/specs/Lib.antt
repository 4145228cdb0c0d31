pub mod PamReading
