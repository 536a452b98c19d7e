mod IdRows
mod Entries
mod Mapped
mod Next
mod Publics
