pub mod Faults
pub mod Keys
pub mod Opening
pub mod Answer
pub mod Laws
