pub mod PlanWords
pub mod Line
pub mod PlanReply
pub mod PlanSession
pub mod PlanSort
pub mod PlanStage
pub mod PlanTrace
