pub mod GroupRecord
