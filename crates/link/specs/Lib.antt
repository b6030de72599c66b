pub mod Meaning
pub mod Frames
pub mod Space
pub mod Boxes
pub mod Lanes
pub mod LaneCalls
