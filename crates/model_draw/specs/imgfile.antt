pub mod ImageFile
