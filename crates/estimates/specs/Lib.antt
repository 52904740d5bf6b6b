-- What a candidate costs and buys, and the call that writes it.
pub mod Estimate
