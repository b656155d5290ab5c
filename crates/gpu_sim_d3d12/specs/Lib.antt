pub mod Objects
pub mod Scripted
pub mod Simulation
pub mod SimulationLaws
