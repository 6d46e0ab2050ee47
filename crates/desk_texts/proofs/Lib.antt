pub mod PieceLists
pub mod RecordLists
