-- The pieces of a batch, each of which is one request.
use Prim.Native.String.{String}
use Rattle.std.specs.Prelude.{Bool, false, List, [], ◌∷◌, if◌then◌else◌, map}
use Rattle.desk_texts.specs.Records.{Fields, Records, begins_with}
use Rattle.desk_texts.specs.RequestRows.{question_forms, request_forms}

-- the names that begin a request
abbrev pub request_names : List String
request_names = "Message" ∷ map (λ form. form.0) request_forms

-- those of them that begin a question
abbrev pub question_names : List String
question_names = map (λ form. form.0) question_forms

-- records are those of a request where the first of them begins one
abbrev pub are_request : Records → Bool
are_request [] = false
are_request (row ∷ more) = begins_with request_names row

-- pieces with one more record in front: it joins the first piece, unless that is a request of its
-- own
abbrev pub in_front : Fields → List Records → List Records
in_front row [] = (row ∷ []) ∷ []
in_front row (piece ∷ more) =
    if are_request piece then (row ∷ []) ∷ piece ∷ more else (row ∷ piece) ∷ more

-- records cut before each that begins a request, and at the first of all
unfoldable pub pieces : Records → List Records
pieces [] = []
pieces (row ∷ rest) = in_front row (pieces rest)
