pub mod Super
