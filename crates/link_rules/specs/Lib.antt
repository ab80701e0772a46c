-- rule: none (lists the files)
pub mod Fragments
pub mod Copies
pub mod Groups
pub mod Integrity
pub mod Redundancy
pub mod Reassembly
pub mod Outcome
pub mod Deliveries
pub mod Run
pub mod Left
