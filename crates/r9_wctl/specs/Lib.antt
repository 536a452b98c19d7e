pub mod wctl
