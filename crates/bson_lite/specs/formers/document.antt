pub mod Document
