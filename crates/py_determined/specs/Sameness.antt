-- When questions, replies and courses of two runs are the same, but for the numbers of objects.
use Rattle.std.specs.Prelude.{List, [], ◌∷◌, true, ◌≡◌}
use Rattle.py_objects.specs.declared.request.Request.{Request}
use Rattle.py_objects.specs.declared.request.Request.TheVariants as request
use Rattle.py_objects.specs.Objects.{class_object}
use Rattle.py_exceptions.specs.declared.ctor.ExceptionCtor.{ExceptionCtor}
use Rattle.py_exceptions.specs.declared.ctor.ExceptionCtor.TheVariants as ctor
use Rattle.py_exceptions.specs.declared.ctor.Instantiate.{Instantiate}
use Rattle.py_exceptions.specs.declared.ctor.Instantiate.TheVariants as comes
use Rattle.py_coro.specs.declared.coro.CoroEnd.{CoroEnd}
use Rattle.py_coro.specs.declared.coro.CoroEnd.TheVariants as left
use Rattle.py_coro.specs.declared.coro.CoroAnswer.{CoroAnswer}
use Rattle.py_coro.specs.declared.coro.CoroAnswer.TheVariants as answer
use Rattle.py_answers.specs.Answers.{Raised, This, Called, BuiltIn, Reply, Has, Is, Makes, Creates, Fails, FailsFrom, Passes, Yields, Stops, Closes}
use Rattle.py_run.specs.Generators.{Generator}
use Rattle.py_run.specs.Calls.{Course, Says, Enters, Begins, Sends, Throws, Setting}
use Rattle.py_agreement.specs.Agreement.{Relation, SameException, SameMaybe, SameHandled, SameAll, SameRequest, has_literal}

-- the tracebacks that exits are told are related, which trees leave open
abbrev pub SameTold : Relation → Request → Request → Type 0
SameTold S (request.Exit m c e t) (request.Exit m' c' e' t') = S t t'
SameTold S _ _ = Unit {0}

-- two questions are the same
abbrev pub SameAsked : Relation → Request → Request → Type 0
SameAsked S r r' = SameRequest S r r' × SameTold S r r'

-- two things that are raised
abbrev pub SameRaised : Relation → Raised → Raised → Type 0
SameRaised S (This e) (This f) = SameException S e f
SameRaised S (Called c vs) (Called d ws) = S (class_object c) (class_object d) × SameAll S vs ws
SameRaised S (BuiltIn k vs) (BuiltIn l ws) = (k ≡ l) × SameAll S vs ws
SameRaised S _ _ = ⊥

-- two replies; an object of a payload is that of a literal
abbrev pub SameReply : Relation → Reply → Reply → Type 0
SameReply S (Has p) (Has q) = (p ≡ q) × (has_literal p ≡ true)
SameReply S (Is v) (Is w) = S v w
SameReply S (Makes c vs) (Makes d ws) = S (class_object c) (class_object d) × SameAll S vs ws
SameReply S (Creates b) (Creates c) = b ≡ c
SameReply S (Fails k s) (Fails l t) = (k ≡ l) × (s ≡ t)
SameReply S (FailsFrom k s e) (FailsFrom l t f) = (k ≡ l) × (s ≡ t) × SameException S e f
SameReply S (Passes x) (Passes y) = SameRaised S x y
SameReply S (Yields v) (Yields w) = S v w
SameReply S (Stops v) (Stops w) = SameMaybe S v w
SameReply S Closes Closes = Unit {0}
SameReply S _ _ = ⊥

-- what an object is taken for where it is raised
abbrev pub SameCtor : Relation → ExceptionCtor → ExceptionCtor → Type 0
SameCtor S (ctor.Class c) (ctor.Class d) = S (class_object c) (class_object d)
SameCtor S (ctor.Instance e) (ctor.Instance f) = SameException S e f
SameCtor S _ _ = ⊥

-- what comes of what is thrown
abbrev pub SameInstance : Relation → Instantiate → Instantiate → Type 0
SameInstance S (comes.Make c vs) (comes.Make d ws) = S (class_object c) (class_object d) × SameAll S vs ws
SameInstance S (comes.Done e) (comes.Done f) = SameException S e f
SameInstance S (comes.Fault f) (comes.Fault g) = f ≡ g
SameInstance S _ _ = ⊥

-- how an activation was left
abbrev pub SameLeft : Relation → CoroEnd → CoroEnd → Type 0
SameLeft S (left.Yield v) (left.Yield w) = S v w
SameLeft S (left.Return v) (left.Return w) = S v w
SameLeft S (left.Raise e) (left.Raise f) = SameException S e f
SameLeft S _ _ = ⊥

-- what a generator answers that was left
abbrev pub SameCoroAnswer : Relation → CoroAnswer → CoroAnswer → Type 0
SameCoroAnswer S (answer.Value v) (answer.Value w) = S v w
SameCoroAnswer S (answer.Stop v) (answer.Stop w) = SameMaybe S v w
SameCoroAnswer S answer.Closed answer.Closed = Unit {0}
SameCoroAnswer S (answer.Raise e) (answer.Raise f) = SameException S e f
SameCoroAnswer S (answer.Convert e stop) (answer.Convert f stop') = SameException S e f × (stop ≡ stop')
SameCoroAnswer S answer.Ignored answer.Ignored = Unit {0}
SameCoroAnswer S _ _ = ⊥

-- two courses of a question
abbrev pub SameCourse : Relation → Course → Course → Type 0
SameCourse S (Says reply) (Says reply') = SameReply S reply reply'
SameCourse S (Enters f vs) (Enters g ws) = S f g × SameAll S vs ws
SameCourse S (Begins a) (Begins b) = a ≡ b
SameCourse S (Sends a v) (Sends b w) = (a ≡ b) × S v w
SameCourse S (Throws a x) (Throws b y) = (a ≡ b) × SameRaised S x y
SameCourse S _ _ = ⊥

-- two generators: related objects, of one activation and in one mode
pub record SameGenerator (S : Relation) (x y : Generator) : Type 0 where
  pub object : S x.object y.object
  pub act : x.act ≡ y.act
  pub mode : x.mode ≡ y.mode

-- generators in order
abbrev pub SameGenerators : Relation → List Generator → List Generator → Type 0
SameGenerators S [] [] = Unit {0}
SameGenerators S (x ∷ xs) (y ∷ ys) = SameGenerator S x y × SameGenerators S xs ys
SameGenerators S _ _ = ⊥

-- two settings of a question
pub record SameSetting (S : Relation) (at at' : Setting) : Type 0 where
  pub signatures : at.signatures ≡ at'.signatures
  pub depth : at.depth ≡ at'.depth
  pub handled : SameHandled S at.handled at'.handled
  pub generators : SameGenerators S at.generators at'.generators
