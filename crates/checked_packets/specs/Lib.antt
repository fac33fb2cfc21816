pub mod Watch
