pub mod Hmac
pub mod HmacKey
pub mod Cbc
pub mod CbcLaws
pub mod Enciphered
pub mod Sealed
pub mod SealLaws
pub mod Examples
