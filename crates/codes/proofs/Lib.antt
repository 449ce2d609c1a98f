pub mod Laying
pub mod Reading
pub mod Spelling
pub mod Standing
pub mod Words
