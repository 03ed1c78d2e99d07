pub mod TagTables
pub mod FormTables
