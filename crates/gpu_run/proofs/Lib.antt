pub mod Binding
pub mod Owning
pub mod VulkanServing
pub mod VulkanOwning
pub mod VulkanTaking
pub mod VulkanReading
pub mod VulkanNaming
pub mod VulkanMoving
pub mod VulkanChanges
pub mod VulkanEqualButBytes
pub mod VulkanRanges
pub mod VulkanKeptBudgets
mod VulkanNonInterference
pub mod VulkanIsolation
pub mod MetalCounting
pub mod MetalServing
pub mod MetalAllocating
mod MetalMoving
mod D3D12Allocating
mod D3D12Counting
mod D3D12Creating
mod D3D12Moving
mod D3D12Growing
mod D3D12Naming
mod D3D12Owning
mod D3D12Records
mod D3D12Serving
