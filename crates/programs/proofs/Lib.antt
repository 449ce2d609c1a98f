pub mod AccessListLaws
pub mod CoreLaws
pub mod Numbers
pub mod Registers
