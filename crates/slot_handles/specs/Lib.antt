pub mod Marks
pub mod Made
pub mod Room
pub mod ReceiverLending
pub mod ReaderLending
pub mod TakerLending
