-- lists that go on
mod ListLemmas
-- instructions behind their prefixes
mod Spelling
mod Spelled
-- scopes with more values
mod ScopeLemmas
-- places of names
mod Places
mod Binding
mod Parameters
pub mod NamingLemmas
-- what is emitted piece by piece
mod EmittingLemmas
mod Operands
-- expressions and statements
mod ExpressionLemmas
mod StatementLemmas
-- statements and clauses in their lists
mod Trees
mod ClauseTrees
-- how long code is
mod SizeLemmas
-- statements with suites
mod BlockLemmas
mod ProtectedLemmas
mod ManagerLemmas
-- whole bodies
mod BodyLemmas
-- the codes of a body
pub mod CodesLemmas
