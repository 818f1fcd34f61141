-- What a call asks, by what is called: a generator is driven by calls of functions of the machine's own (Python Language Reference, 6.2.9.1).
use Rattle.std.specs.Prelude.{Bool, true, false, Option, Some, None, List, [], ◌∷◌}
use Rattle.py_code.specs.declared.literal.BuiltinFn.{BuiltinFn}
use Rattle.py_code.specs.declared.literal.BuiltinFn.TheVariants as builtin
use Rattle.py_objects.specs.declared.payload.Payload.{Payload}
use Rattle.py_objects.specs.declared.payload.Payload.TheVariants as payload
use Rattle.py_objects.specs.declared.request.Keywords.TheVariants as keywords
use Rattle.py_objects.specs.declared.request.Request.{Request}
use Rattle.py_objects.specs.declared.request.Request.TheVariants as request
use Rattle.py_objects.specs.Objects.{Obj}

-- what `send` asks: it takes a generator and what is sent
abbrev pub send_request : List Obj → Option Request
send_request (g ∷ v ∷ []) = Some (request.Send g v)
send_request _ = None

-- what `throw` asks: it takes a generator and what is raised there, with a value where it is given; a call with a traceback beside is a plain one so far
abbrev pub throw_request : List Obj → Option Request
throw_request (g ∷ c ∷ []) = Some (request.Throw g c None None)
throw_request (g ∷ c ∷ v ∷ []) = Some (request.Throw g c (Some v) None)
throw_request _ = None

-- what `close` asks: it takes a generator
abbrev pub close_request : List Obj → Option Request
close_request (g ∷ []) = Some (request.Close g)
close_request _ = None

-- the request of its own that a call of such a function with these arguments comes to, where it does
abbrev pub builtin_request : BuiltinFn → List Obj → Option Request
builtin_request builtin.Send vs = send_request vs
builtin_request builtin.Throw vs = throw_request vs
builtin_request builtin.Close vs = close_request vs
builtin_request _ vs = None

-- which function of the machine's own a payload is, if any
abbrev pub builtin_of : Payload → Option BuiltinFn
builtin_of (payload.Builtin f) = Some f
builtin_of _ = None

-- whether a payload is a manager's, which has an exit
abbrev pub is_manager : Payload → Bool
is_manager (payload.Manager m) = true
is_manager _ = false

-- the request of its own that a call of one comes to, where there is one
abbrev pub own_request : Option BuiltinFn → List Obj → Option Request
own_request None vs = None
own_request (Some f) vs = builtin_request f vs

-- a request, or that of a plain call where there is none
abbrev pub or_call : Obj → List Obj → Option Request → Request
or_call f vs None = request.Call f vs keywords.None
or_call f vs (Some r) = r

-- what the call of an object of this payload with these arguments asks
abbrev pub call_request : Payload → Obj → List Obj → Request
call_request p f vs = or_call f vs (own_request (builtin_of p) vs)
