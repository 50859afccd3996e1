-- What each rule of the machine is for: short runs of machines that drop one rule, in which a law is false.
use Rattle.std.proofs.Common.{◌≡◌, refl, ℕ, zero, suc, List, [], ◌∷◌, ◌++◌, Option, Some, None, Bool, true, false, is_some, map, nat_eq, reverse}
use Rattle.std.specs.Prelude.{option_map, option_and_then, count_by}
use Rattle.wave_base.specs.declared.path.Path.{Path}
use Rattle.wave_base.specs.Fold.{with_done}
use Rattle.wave_base.specs.Kids.{child_at}
use Rattle.wave_states.specs.States.{State, Status, Travelling, Ended, Entry, Record, Enter, set, ask_in}
use Rattle.wave_states.specs.Labels.{Label, Act, Admit, Queue, Grant, Start, Stop, Free, Pass, Land, is_pass}
use Rattle.wave_states.specs.Labels
use Rattle.wave_states.specs.Work.{work_after}
use Rattle.wave_states.specs.Begins.{Begin, start_state}
use Rattle.wave_states.specs.Canonical.{below, idle_in, taken_by, early, enabled_labels}
use Rattle.wave_states.specs.Walkers.{Walker, walkers}
use Rattle.wave_states.specs.Steps.{step, ◌>>=◌, after_grant, part_of, with_bench, with_entry, with_body, child_or_new, put_back, into_child, desk_back, segment_of, cell_of}
use Rattle.wave_states.specs.Desks.{with_held, with_status, release}
use Rattle.wave_states.specs.Runs.{run}
use Rattle.wave_states.specs.Alone.{fold_alone, after_segments, first_alone}
use Rattle.wave_states.proofs.Trips.{Trip, Told, Sum, Adds, Moves_to, trips, trip, hall, begin}

abbrev S : Type 0
S = State Trip ℕ Told Trip

abbrev on : ℕ → Act → Label
on h a = record { worker = 0; host = h; act = a }

abbrev at_zero : List Act → List Label
at_zero acts = map (on 0) acts

-- the run of the right machine so far, then the wrong step, then the right machine again
abbrev then_run : Option S → List Label → Option S
then_run o ls = option_and_then (λ s. run trips 1 s ls) o

abbrev result_of : Option S → ℕ → Option Told
result_of o t = option_and_then (λ (s : S). (s.cells t).result) o

-- two events into one child: both have gone through the root, and the later one comes to the child's line first
abbrev both_down : List (List Trip)
both_down = (trip (hall ∷ []) Adds ∷ trip (hall ∷ []) Adds ∷ []) ∷ []

abbrev through_root : List Label
through_root = at_zero (
    Admit 1 ∷ Admit 2 ∷ Queue 1 1 [] ∷ Queue 2 1 [] ∷ Grant 1 [] ∷ Start 1 [] ∷ Stop 1 [] ∷ Free 1 3 [] ∷ Grant 2 [] ∷ Start 2 [] ∷ Stop 2 [] ∷ []
    )

both_fold : (fold_alone trips begin both_down 2).results ≡ Sum 1 ∷ Sum 2 ∷ []
unfolding after_segments
both_fold = refl

-- A grant in order of arrival: the claim that came first gets in, whatever its number.
abbrev let_in_first : ℕ → ℕ → Path → S → Option S
let_in_first t number p s = do
  e ← (s.cells t).event
  en ← (s.columns p).store 0
  c ← en.waiting number
  Some (with_bench s t p 0 (record { part = after_grant p 0 (part_of s t p) e en c; hand = None }))

abbrev by_arrival : Option S
by_arrival = then_run (option_and_then (let_in_first 2 2 (hall ∷ [])) (run trips 1 (start_state begin both_down) (through_root ++ at_zero (Queue 2 2 (hall ∷ []) ∷ [])))) (at_zero (Start 2 (hall ∷ []) ∷ Stop 2 (hall ∷ []) ∷ []))

-- ticket 2 sees the child before ticket 1 was there: its result isn't the fold's
arrival_is_wrong : result_of by_arrival 2 ≡ Some (Sum 1)
unfolding step run
arrival_is_wrong = refl

-- A parent that is released before the number is taken: the Enter is sent later, with the number of then.
abbrev without_child : Record ℕ → Record ℕ
without_child r = record { fields = r.fields; children = [] }

abbrev no_number : Entry ℕ → Entry ℕ
no_number en = with_body en (option_map without_child en.body)

abbrev held_back : S → S
held_back s = record {
  before = s.before;
  head = s.head;
  admitted = s.admitted;
  cells = set nat_eq s.cells 1 (record { event = (s.cells 1).event; mails = set nat_eq (s.cells 1).mails 2 None; result = (s.cells 1).result });
  columns = λ p. record { store = λ h. option_map no_number ((s.columns p).store h); gone = (s.columns p).gone };
  hands = s.hands;
}

abbrev number_now : S → Option ℕ
number_now s = do
  en ← (s.columns []).store 0
  b ← en.body
  Some (suc (child_or_new (child_at b.children hall) 0).given)

abbrev released_first : Option S
released_first = then_run (option_map held_back (run trips 1 (start_state begin both_down) (at_zero (Admit 1 ∷ Admit 2 ∷ Queue 1 1 [] ∷ Queue 2 1 [] ∷ Grant 1 [] ∷ Start 1 [] ∷ Stop 1 [] ∷ []))))
    (at_zero (Free 1 3 [] ∷ Grant 2 [] ∷ Start 2 [] ∷ Stop 2 [] ∷ []))

-- ticket 1, the first that enters the child, would have number 2 there
number_is_wrong : option_and_then number_now released_first ≡ Some 2
unfolding step run
number_is_wrong = refl

-- A move that leaves the old entry: after it lands, two hosts have the context.
abbrev one_move : List (List Trip)
one_move = (trip [] (Moves_to 1) ∷ []) ∷ []

abbrev put_again : Entry ℕ → S → S
put_again en s = record { before = s.before; head = s.head; admitted = s.admitted; cells = s.cells; columns = λ p. with_entry (s.columns p) 0 (Some en); hands = s.hands }

abbrev left_behind : Option S
left_behind = do
  s ← run trips 1 (start_state begin one_move) (at_zero (Admit 1 ∷ Queue 1 1 [] ∷ Grant 1 [] ∷ Start 1 [] ∷ []))
  en ← (s.columns []).store 0
  then_run (option_map (put_again en) (run trips 1 s (on 0 (Stop 1 []) ∷ []))) (on 1 (Land 1 2 []) ∷ [])

abbrev owners : Option S → Option (Bool × Bool)
owners o = option_map (λ s. (is_some ((s.columns []).store 0), is_some ((s.columns []).store 1))) o

two_owners : owners left_behind ≡ Some (true, true)
unfolding step run
two_owners = refl

one_owner : owners (run trips 1 (start_state begin one_move) (at_zero (Admit 1 ∷ Queue 1 1 [] ∷ Grant 1 [] ∷ Start 1 [] ∷ Stop 1 [] ∷ []) ++ on 1 (Land 1 2 []) ∷ [])) ≡ Some (false, true)
unfolding step run
one_owner = refl

-- A mark that is followed twice. Hall went from host 0 to 1 and is on its way back, and the Enter of ticket 4 has followed both marks and
-- lies at host 0, where the first mark still is.
abbrev to_and_fro : List (List Trip)
to_and_fro = (trip (hall ∷ []) Adds ∷ trip (hall ∷ []) (Moves_to 1) ∷ trip (hall ∷ []) (Moves_to 0) ∷ trip (hall ∷ []) Adds ∷ []) ∷ []

abbrev through : ℕ → List Label
through t = at_zero (Admit t ∷ Queue t 1 [] ∷ Grant t [] ∷ Start t [] ∷ Stop t [] ∷ Free t 3 [] ∷ [])

abbrev at_hall : ℕ → ℕ → List Label
at_hall t h = map (on h) (Queue t 2 (hall ∷ []) ∷ Grant t (hall ∷ []) ∷ Start t (hall ∷ []) ∷ Stop t (hall ∷ []) ∷ [])

abbrev pass : ℕ → ℕ → ℕ → Label
pass t from to = on from (Pass t 2 (hall ∷ []) to)

abbrev on_its_way_back : List Label
on_its_way_back = through 1 ++ through 2 ++ through 3 ++ through 4 ++ at_hall 1 0 ++ on 0 (Free 1 4 (hall ∷ [])) ∷ at_hall 2 0 ++ on 1 (Land 2 4 (hall ∷ [])) ∷ pass 3 0 1 ∷ at_hall 3 1 ++ pass 4 0 1 ∷ pass 4 1 0 ∷ []

abbrev both_followed : Option S
both_followed = run trips 1 (start_state begin to_and_fro) on_its_way_back

three_passes : count_by (λ l. is_pass l.act) on_its_way_back ≡ 3
three_passes = refl

-- where the Enter lies, and what it has followed
abbrev enter_at : Option S → Option (ℕ × ℕ)
enter_at o = do
  s ← o
  m ← (s.cells 4).mails 2
  a ← ask_in m.letter
  Some (m.host, a.followed)

lies_at_zero : enter_at both_followed ≡ Some (0, 2)
unfolding step run
lies_at_zero = refl

-- it waits there until hall lands
it_waits : then_run both_followed (pass 4 0 1 ∷ []) ≡ None
unfolding step run
it_waits = refl

-- by a machine that doesn't ask what it has followed it goes to the mark's host
abbrev pass_on : S → Option S
pass_on s = do
  m ← (s.cells 4).mails 2
  a ← ask_in m.letter
  g ← (s.columns m.path).gone m.host
  Some (record {
    before = s.before;
    head = s.head;
    admitted = s.admitted;
    cells = set nat_eq s.cells 4 (record { event = (s.cells 4).event; mails = set nat_eq (s.cells 4).mails 2 (Some (record { host = g.to; path = m.path; letter = Enter (record { number = a.number; followed = g.number; peek = a.peek }) })); result = None });
    columns = s.columns;
    hands = s.hands;
  })

abbrev again : ℕ → Option S → Option S
again zero o = o
again (suc n) o = again n (option_and_then pass_on o)

-- and comes back: it goes round for ever
goes_round : enter_at (again 2 both_followed) ≡ enter_at both_followed
unfolding step run
goes_round = refl

-- four tickets enter eight contexts, and hall is moved twice, so there are at most 16 Passes; these would be 17
passes_at_most : work_after trips begin to_and_fro 4 ≡ record { tickets = 4; segments = 8; entered = 8; moves = 2 }
unfolding after_segments
passes_at_most = refl

too_often : enter_at (again 14 both_followed) ≡ Some (0, 2)
unfolding step run
too_often = refl

-- A commit out of order: the later event ends first, and is committed as it ends.
abbrev one_stays : List (List Trip)
one_stays = (trip (hall ∷ []) Adds ∷ trip [] Adds ∷ []) ∷ []

abbrev commit_any : ℕ → S → Option S
commit_any t s = do
  r ← (s.cells t).result
  Some (record { before = s.before; head = with_done s.head []; admitted = s.admitted; cells = s.cells; columns = s.columns; hands = s.hands })

abbrev too_early : Option S
too_early = option_and_then (commit_any 2) (run trips 1 (start_state begin one_stays) through_root)

-- one result is committed, and the first ticket has none
committed_is_wrong : option_map (λ (s : S). s.head.done) too_early ≡ Some 1
unfolding step run
committed_is_wrong = refl

first_is_missing : result_of too_early 1 ≡ None
unfolding step run
first_is_missing = refl

-- A Go that releases nothing: the segment ends as with a call into the child.
abbrev gone_down : List Label
gone_down = at_zero (Admit 1 ∷ Queue 1 1 [] ∷ Grant 1 [] ∷ Start 1 [] ∷ [])

abbrev go_and_keep : S → Option S
go_and_keep s = do
  g ← s.hands 0
  e ← (s.cells 1).event
  en ← (s.columns []).store 0
  Some (with_bench s 1 [] 0 (record {
    part = put_back (part_of s 1 []) 0 (into_child [] 0 (desk_back (s.cells 1) e (segment_of trips g).actor) en (segment_of trips g).fields g.body.children hall false None);
    hand = None;
  }))

abbrev paths_held : Option S → Option (List Path)
paths_held o = do
  s ← o
  e ← (s.cells 1).event
  Some (map (λ x. x.0) e.held)

-- alone the event holds the child after its first segment, and nothing else; in the machine it still waits for the child, and holds the root
alone_holds : (after_segments trips 1 (first_alone trips (trip (hall ∷ []) Adds) 1 (begin).tree)).held ≡ (hall ∷ []) ∷ []
unfolding after_segments
alone_holds = refl

keeps_the_root : paths_held (option_and_then go_and_keep (run trips 1 (start_state begin both_down) gone_down)) ≡ Some ([] ∷ [])
unfolding step run
keeps_the_root = refl

-- by the rule it has given it up
gives_up_the_root : paths_held (run trips 1 (start_state begin both_down) (gone_down ++ at_zero (Stop 1 [] ∷ []))) ≡ Some []
unfolding step run
gives_up_the_root = refl

-- An event that stays travelling when it is over: it has a result, and has not ended.
abbrev over_on_its_way : S → Option S
over_on_its_way s = do
  e ← (s.cells 1).event
  Some (record {
    before = s.before;
    head = s.head;
    admitted = s.admitted;
    cells = set nat_eq s.cells 1 (record { event = Some (with_status e Travelling); mails = (s.cells 1).mails; result = (s.cells 1).result });
    columns = s.columns;
    hands = s.hands;
  })

abbrev stays_here : List (List Trip)
stays_here = (trip [] Adds ∷ []) ∷ []

abbrev result_and_status : Option S → Option (Option Told × Status)
result_and_status o = do
  s ← o
  e ← (s.cells 1).event
  Some ((s.cells 1).result, e.status)

abbrev is_over : Option S
is_over = run trips 1 (start_state begin stays_here) (at_zero (Admit 1 ∷ Queue 1 1 [] ∷ Grant 1 [] ∷ Start 1 [] ∷ Stop 1 [] ∷ []))

over_but_travels : result_and_status (option_and_then over_on_its_way is_over) ≡ Some (Some (Sum 1), Travelling)
unfolding step run
over_but_travels = refl

over_and_ended : result_and_status is_over ≡ Some (Some (Sum 1), Ended)
unfolding step run
over_and_ended = refl

-- The highest idle worker takes all but the Stops: then a label is in the list whose lower worker has no segment out.
abbrev idle_backwards : S → List Label
idle_backwards s = taken_by trips 2 s (idle_in s.hands (reverse (below 2))) (early s 1)

by_the_highest : idle_backwards (start_state begin stays_here) ≡ record { worker = 1; host = 0; act = Admit 1 } ∷ []
unfolding step
by_the_highest = refl

by_the_lowest : enabled_labels trips 2 1 (start_state begin stays_here) ≡ record { worker = 0; host = 0; act = Admit 1 } ∷ []
unfolding step enabled_labels
by_the_lowest = refl

-- Releases in reverse order: a walker holds the root and a child when it is over, and its Releases fall.
abbrev W : Type 0
W = State (Walker ℕ) ℕ (List (Path × ℕ)) (Unit {0})

abbrev two_contexts : Begin ℕ
two_contexts = record {
  tree = record { paths = [] ∷ (hall ∷ []) ∷ []; fields = λ p. 0 };
  places = record { paths = [] ∷ (hall ∷ []) ∷ []; fields = λ p. 0 };
  before = 0;
}

abbrev walkers_run : W → List Act → Option W
walkers_run s acts = run (walkers (λ p. 0)) 1 s (at_zero acts)

abbrev walked : Option W
walked = walkers_run (start_state two_contexts ((tt ∷ []) ∷ []))
    (Admit 1 ∷ Queue 1 1 [] ∷ Grant 1 [] ∷ Start 1 [] ∷ Stop 1 [] ∷ Queue 1 2 (hall ∷ []) ∷ Grant 1 (hall ∷ []) ∷ Start 1 (hall ∷ []) ∷ Stop 1 (hall ∷ []) ∷ Labels.Visit 1 3 [] ∷ Start 1 [] ∷ [])

-- the mails of ticket 1 with these numbers, as what is released
abbrev released : ℕ → ℕ → Option W → Option (Path × Path)
released i j o = do
  s ← o
  m ← (s.cells 1).mails i
  n ← (s.cells 1).mails j
  Some (m.path, n.path)

-- by the rule the Releases of one Stop are numbered in path order
in_path_order : released 4 5 (option_and_then (λ s. walkers_run s (Stop 1 [] ∷ [])) walked) ≡ Some ([], hall ∷ [])
unfolding step run
in_path_order = refl

abbrev over_backwards : W → Option W
over_backwards s = do
  g ← s.hands 0
  e ← (s.cells 1).event
  en ← (s.columns []).store 0
  Some (with_bench s 1 [] 0 (record {
    part = record {
      cell = cell_of (release (reverse e.held) (record { event = with_held (with_status e Ended) []; mails = (s.cells 1).mails })) (Some g.actor.copied);
      column = with_entry (s.columns []) 0 (Some (with_body en (Some g.body)));
    };
    hand = None;
  }))

against_path_order : released 4 5 (option_and_then over_backwards walked) ≡ Some (hall ∷ [], [])
unfolding step run
against_path_order = refl

-- so the labels of the right machine are no run there: mail 4 isn't the root's
right_run : option_map (λ (s : W). s.admitted) (option_and_then (λ s. walkers_run s (Stop 1 [] ∷ Free 1 4 [] ∷ Free 1 5 (hall ∷ []) ∷ [])) walked) ≡ Some 1
unfolding step run
right_run = refl

not_a_run : option_and_then (λ s. walkers_run s (Free 1 4 [] ∷ Free 1 5 (hall ∷ []) ∷ [])) (option_and_then over_backwards walked) ≡ None
unfolding step run
not_a_run = refl
