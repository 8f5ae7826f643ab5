pub mod Classic
