-- Which instructions are quiet, and which events only look.
use Rattle.std.proofs.Common.{◌≡◌, ◌==◌, ℕ, Bool, true, false, List, [], ◌∷◌, Some, None, pos, refl}
use Rattle.std.specs.List.{list_all}
use Rattle.std.specs.Prelude.{codes, map}
use Rattle.wave_base.specs.declared.value.Kind.TheVariants as k
use Rattle.service_code.specs.declared.instr.Instr.{Instr}
use Rattle.service_code.specs.declared.instr.Instr.TheVariants as i
use Rattle.service_code.specs.declared.program.Program.{Program}
use Rattle.service_verify.specs.Boxes.{Frame}
use Rattle.service_verify.specs.Looks.{is_quiet, quiet_to, is_quiet_function, after_go, peeks, looks_from, frames_peek}
use Rattle.service_verify.proofs.Samples.{class, function, market}

abbrev none : ℕ → Bool
none f = false

abbrev all : ℕ → Bool
all f = true

-- ---- instruction by instruction

-- quiet, whatever the methods are: a local is put into and cut from as quietly as it is stored
abbrev quiet : List Instr
quiet =
    i.PushInt (pos 1) ∷ i.PushBool true ∷ i.PushText 0 ∷ i.PushEmpty
    ∷ i.Load 0 ∷ i.Store 0 ∷ i.PutLocal 0 ∷ i.CutLocal 0
    ∷ i.Field 0 ∷ i.Above 0 0 ∷ i.Op 0
    ∷ i.Jump 0 ∷ i.JumpFalse 0 ∷ i.Tick ∷ i.Return ∷ i.Pop ∷ i.Require
    ∷ i.Send 0 ∷ i.Spawn 0 ∷ i.Go (class 1) ∷ i.Reply ∷ i.End ∷ []

are_quiet : list_all (is_quiet none) quiet ≡ true
are_quiet = refl

-- these three one by one, as the nearest to those that are not quiet
puts_a_local : is_quiet none (i.PutLocal 0) ≡ true
puts_a_local = refl

cuts_a_local : is_quiet none (i.CutLocal 0) ≡ true
cuts_a_local = refl

goes_for_good : is_quiet none (i.Go (class 1)) ≡ true
goes_for_good = refl

-- not quiet, whatever the methods are
abbrev loud : List Instr
loud = i.SetField 0 ∷ i.PutField 0 ∷ i.CutField 0 ∷ i.CallDown (class 1) 0 ∷ []

are_loud : map (is_quiet all) loud ≡ false ∷ false ∷ false ∷ false ∷ []
are_loud = refl

-- a call is as its own method is
abbrev second : ℕ → Bool
second f = f == 2

as_its_method : map (is_quiet second) (i.Call 1 ∷ i.Call 2 ∷ i.Call 3 ∷ []) ≡ false ∷ true ∷ false ∷ []
as_its_method = refl

-- ---- functions

-- three methods, each of which calls the one before it; one that calls what sets a field, and one that calls a child's
abbrev chain : Program
chain = record market {
  functions =
      function (codes "a") 1 false [] None [] 1 (i.Field 0 ∷ i.Pop ∷ i.Return ∷ [])
      ∷ function (codes "b") 1 false [] None [] 1 (i.Tick ∷ i.Call 0 ∷ i.Return ∷ [])
      ∷ function (codes "c") 1 false [] None [] 1 (i.Tick ∷ i.Call 1 ∷ i.Return ∷ []) ∷ [];
}

-- with no depth left nothing is known to be quiet, though this function calls nothing
no_depth : quiet_to chain 0 0 ≡ false
no_depth = refl

-- its own instructions take one
one_deep : quiet_to chain 1 0 ∷ quiet_to chain 1 1 ∷ quiet_to chain 2 1 ∷ quiet_to chain 2 2 ∷ [] ≡ true ∷ false ∷ true ∷ false ∷ []
one_deep = refl

-- as many as there are functions are enough for the whole chain, and one fewer would not be
whole_chain : is_quiet_function chain 2 ≡ true
unfolding is_quiet_function
whole_chain = refl

-- of the chain above a method that sets a field nothing is quiet
abbrev loud_chain : Program
loud_chain = record market {
  functions =
      function (codes "a") 1 false [] None [] 1 (i.PushInt (pos 1) ∷ i.SetField 0 ∷ i.Return ∷ [])
      ∷ function (codes "b") 1 false [] None [] 1 (i.Tick ∷ i.Call 0 ∷ i.Return ∷ [])
      ∷ function (codes "c") 1 false [] None [] 1 (i.Tick ∷ i.Call 1 ∷ i.Return ∷ []) ∷ [];
}

loud_below : is_quiet_function loud_chain 2 ≡ false
unfolding is_quiet_function
loud_below = refl

-- ---- events

-- the place behind the last Go, of two; and the first place where there is none
behind_the_last : after_go (i.PushInt (pos 1) ∷ i.Go (class 1) ∷ i.PushInt (pos 2) ∷ i.Go (class 2) ∷ i.Field 0 ∷ i.Reply ∷ []) ≡ 4
behind_the_last = refl

no_go : after_go (i.Field 0 ∷ i.Reply ∷ []) ≡ 0
no_go = refl

-- an event that goes into a hall and then runs this; its first place there is 2
abbrev in_hall : List Instr → Program
in_hall code = record market { functions = function (codes "event") 0 true [] (Some k.Int) (k.Int ∷ []) 3 (i.PushInt (pos 5) ∷ i.Go (class 1) ∷ code) ∷ [] }

-- it puts into a local of its own, and so it only looks
local_only : peeks (in_hall (i.PushInt (pos 1) ∷ i.PushInt (pos 2) ∷ i.PutLocal 0 ∷ i.Field 0 ∷ i.Reply ∷ [])) 0 ≡ true
unfolding peeks is_quiet_function
local_only = refl

-- and so it does where it cuts from a local, sends, creates, reads above and may trap
all_quiet : peeks (in_hall (i.PushInt (pos 2) ∷ i.CutLocal 0 ∷ i.Above 0 0 ∷ i.Send 0 ∷ i.Spawn 0 ∷ i.PushBool true ∷ i.Require ∷ i.Field 0 ∷ i.Reply ∷ [])) 0 ≡ true
unfolding peeks is_quiet_function
all_quiet = refl

-- it puts into a field, and cuts from one
puts_field : peeks (in_hall (i.PushInt (pos 1) ∷ i.PushInt (pos 2) ∷ i.PutField 0 ∷ i.Field 0 ∷ i.Reply ∷ [])) 0 ≡ false
unfolding peeks is_quiet_function
puts_field = refl

cuts_field : peeks (in_hall (i.PushInt (pos 2) ∷ i.CutField 0 ∷ i.Field 0 ∷ i.Reply ∷ [])) 0 ≡ false
unfolding peeks is_quiet_function
cuts_field = refl

-- a jump to the place behind its last Go stays behind it, and one to the place before doesn't, whether it always jumps or not
back_to_two : peeks (in_hall (i.Tick ∷ i.Jump 2 ∷ [])) 0 ∷ peeks (in_hall (i.Tick ∷ i.Jump 1 ∷ [])) 0 ∷ [] ≡ true ∷ false ∷ []
unfolding peeks is_quiet_function
back_to_two = refl

back_if : peeks (in_hall (i.PushBool true ∷ i.JumpFalse 2 ∷ i.End ∷ [])) 0 ∷ peeks (in_hall (i.PushBool true ∷ i.JumpFalse 1 ∷ i.End ∷ [])) 0 ∷ [] ≡ true ∷ false ∷ []
unfolding peeks is_quiet_function
back_if = refl

-- a number that no function has
no_function : peeks (in_hall []) 1 ≡ false
unfolding peeks
no_function = refl

-- ---- an event that runs

abbrev looker : Program
looker = in_hall (i.Field 0 ∷ i.Reply ∷ [])

looks_from_two : looks_from looker 0 ≡ Some 2
unfolding peeks is_quiet_function
looks_from_two = refl

abbrev frame : ℕ → Frame
frame place = record { function = 0; place = place; stack = []; locals = []; down = false }

-- before its last Go it doesn't only look; right behind it does, and later
where_it_looks : map (λ n. frames_peek looker (frame n ∷ [])) (0 ∷ 1 ∷ 2 ∷ 3 ∷ []) ≡ false ∷ false ∷ true ∷ true ∷ []
unfolding peeks is_quiet_function
where_it_looks = refl

-- the frame that runs tells, and not the one that waits below it; once it is over there is none
first_frame_tells : frames_peek looker (frame 1 ∷ frame 2 ∷ []) ∷ frames_peek looker [] ∷ [] ≡ false ∷ false ∷ []
unfolding peeks is_quiet_function
first_frame_tells = refl
