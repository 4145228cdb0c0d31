pub mod Rules
pub mod Testing
pub mod KindRules
