-- What replies to a plan trace look like.
use Rattle.std.specs.Prelude.{ℕ, List, [], ◌∷◌, ◌++◌, codes, length, string_bytes}
use Rattle.std.specs.List.{flat_map}
use Rattle.std.specs.Fmt.{decimal}
use Rattle.gpu_block_session.specs.ErrorNumber.{number_text}
use Rattle.gpu_plan.specs.declared.order.Order.{Order}
use Rattle.gpu_plan.specs.declared.order.Order.TheVariants.{Size, Area, Alignment, Magnitude, Breadth}
use Rattle.gpu_plan_session.specs.declared.reply.Place.{Place}
use Rattle.gpu_plan_session.specs.declared.reply.Solved.{Solved}
use Rattle.gpu_plan_session.specs.declared.reply.Reply.{Reply}
use Rattle.gpu_plan_session.specs.declared.reply.Reply.TheVariants.{Done, Busy, Refused}
use Rattle.gpu_plan_session.specs.declared.reply.Reply.TheVariants as replies

-- the caller's number of a reused resource, behind a space
abbrev pub key_text : ℕ → List ℕ
key_text key = codes " " ++ decimal key

-- how many others' bytes a resource reuses, and their numbers
abbrev pub reuses_text : List ℕ → List ℕ
reuses_text keys = codes " reuses " ++ (decimal (length keys) ++ flat_map key_text keys)

-- where a resource lies, and the end of its line
abbrev pub place_line : Place → List ℕ
place_line p = codes "place " ++ (string_bytes p.name ++ (codes " " ++ (decimal p.offset ++ (codes " " ++ (decimal p.size ++ (reuses_text p.reuses.items ++ 10 ∷ []))))))

-- the word of an order
abbrev pub order_word : Order → List ℕ
order_word Size = codes "size"
order_word Area = codes "area"
order_word Alignment = codes "alignment"
order_word Magnitude = codes "magnitude"
order_word Breadth = codes "breadth"

-- the last line of a plan
abbrev pub heap_text : Solved → List ℕ
heap_text s = codes "heap " ++ (decimal s.heap ++ (codes " peak " ++ (decimal s.peak ++ (codes " order " ++ order_word s.order))))

-- the places, a line each, and then the heap
abbrev pub solved_text : Solved → List ℕ
solved_text s = flat_map place_line s.places.items ++ heap_text s

-- what is answered to a line
abbrev pub reply_text : Reply → List ℕ
reply_text Done = codes "ok"
reply_text Busy = codes "busy"
reply_text (Refused number) = codes "error " ++ number_text number
reply_text (replies.Solved solved) = solved_text solved
