pub mod marks
