pub mod BitLaws
pub mod CountLaws
pub mod EndpointLaws
pub mod ReadinessLaws
