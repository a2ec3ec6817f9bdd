mod Lists
mod Each
mod KeyNames
mod Ranges
mod FormatLaws
mod IndexLaws
mod RouteLaws
mod RoutesRead
mod ReadingLaws
mod PlanLimits
mod PlanLaws
pub mod EndpointLaws
mod PeerLaws
mod DrawnPlans
mod PlaceLaws
