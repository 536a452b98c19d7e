mod Marked
mod Near
mod Panes
mod Telling
