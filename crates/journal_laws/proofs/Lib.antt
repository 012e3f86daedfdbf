-- The journal for power loss: texts read back, pages put back, cuts, and that recovery leaves the file before a call or after it.
pub mod Texts
pub mod Places
pub mod Cuts
pub mod Groups
pub mod Mends
pub mod Whole
pub mod Survives
pub mod Chains
pub mod Restart
pub mod Order
pub mod Dues
pub mod RecoveryWrites
pub mod Loops
pub mod Fresh
