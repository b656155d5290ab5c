pub mod PlanSorts
mod Placing
mod PlanReading
