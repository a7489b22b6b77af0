pub mod MemoryFiles
