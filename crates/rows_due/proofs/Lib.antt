pub mod DueRow
