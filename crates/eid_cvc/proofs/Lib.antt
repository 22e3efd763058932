pub mod FrontFacts
pub mod KeyFacts
pub mod TemplateFacts
pub mod ExtensionFacts
pub mod CertificateFacts
pub mod Sizes
pub mod Written
