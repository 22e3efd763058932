pub mod Cells
pub mod Device
pub mod Memory
pub mod Tears
