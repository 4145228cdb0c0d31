pub mod PamWriting
