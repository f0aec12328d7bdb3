pub mod AsciiClasses
pub mod Plain
pub mod States
pub mod PrintableTable
