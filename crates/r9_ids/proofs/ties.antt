mod Names
mod Lists
mod Keeping
