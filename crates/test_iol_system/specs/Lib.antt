pub mod Watcher
