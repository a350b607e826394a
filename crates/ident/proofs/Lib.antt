pub mod Compare
pub mod Words
pub mod WordByWord
pub mod Places
pub mod TypeNumbers
pub mod KindNumbers
pub mod RoundTrip
