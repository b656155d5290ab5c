pub mod Draw
pub mod Drawable
pub mod DrawPlan
pub mod Follow
pub mod WholeTrace
