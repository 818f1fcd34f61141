mod AgreementLemmas
pub mod Agreeing
mod WorkedLemmas
