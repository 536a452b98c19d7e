mod Settled
mod Stepped
