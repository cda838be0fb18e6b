pub mod Commands
pub mod Draft
pub mod Generator
pub mod Header
pub mod Made
pub mod Rules
