-- States with equal positions and values, entries of which none breaks a claim, what a memory of states says, and the laws of these.
pub mod Clean
pub mod Memory
pub mod laws
