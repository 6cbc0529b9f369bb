pub mod Tx
