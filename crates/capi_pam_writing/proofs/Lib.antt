pub mod PamWritings
