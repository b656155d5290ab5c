pub mod Memories
pub mod Memory
pub mod Numbers
pub mod Plan
pub mod Scripted
pub mod Simulation
pub mod SimulationLaws
