pub mod Viewer
