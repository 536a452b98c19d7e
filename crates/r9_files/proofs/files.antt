mod Listings
mod Numbered
