pub mod AccessList
pub mod Core
pub mod Instruction
pub mod ListedAccess
pub mod Making
pub mod Refusal
