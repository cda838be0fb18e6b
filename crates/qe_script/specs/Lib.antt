pub mod Callers
pub mod Fields
pub mod Header
pub mod Line
pub mod Printed
pub mod Read
pub mod Script
