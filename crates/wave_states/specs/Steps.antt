-- What each label may do, and what it does. Each says what a ticket's cell and a context's column are afterwards; what it
-- doesn't name stays.
use Rattle.std.specs.Prelude.{ℕ, suc, ◌+◌, Bool, true, false, not, ◌&&◌, ◌==◌, nat_eq, nat_lt, if◌then◌else◌, List, [], ◌∷◌, ◌++◌, Option, Some, None, is_some, is_none, slice_get, option_and_then, option_map}
use Rattle.std.specs.List.{list_all, filter}
use Rattle.std.specs.BTreeMap.{insert_entry}
use Rattle.wave_base.specs.declared.path.Step.{Step}
use Rattle.wave_base.specs.declared.path.Path.{Path}
use Rattle.wave_base.specs.declared.children.Child.{Child}
use Rattle.wave_base.specs.Paths.{path_eq, path_cmp, is_above, parent_of}
use Rattle.wave_base.specs.Kids.{child_at, with_child}
use Rattle.wave_base.specs.Fold.{with_done}
use Rattle.wave_states.specs.Actors.{Actors, Pause, Left, Go, Down, Over}
use Rattle.wave_states.specs.Actors.Pause.{Back}
use Rattle.wave_states.specs.States.{set, Record, Claim, Entry, Mark, Ask, Letter, Enter, Transfer, Mail, Status, Travelling, Ended, Waiting, Ready, Running, Hold, Event, Cell, Column, Hand, State, hold_at, holds_as_peek, steps_of, ask_in, is_coming, is_release, entry_in}
use Rattle.wave_states.specs.Labels.{Act, Label, Admit, Queue, Grant, Visit, Start, Stop, Free, Pass, Land, Commit, ticket_of, path_of}
use Rattle.wave_states.specs.Desks.{Desk, with_held, with_status, kept_of, nothing_kept, not_at, send, give_up}

-- o, and then f of what it is
infixl 10 ◌>>=◌
abbrev pub ◌>>=◌ : {X Y : Type 0} → Option X → (X → Option Y) → Option Y
o >>= f = option_and_then f o

-- where the test holds
abbrev pub only_if : {X : Type 0} → Bool → X → Option X
only_if b x = if b then Some x else None

-- what a label of one context reads and changes beside its worker's hand: its ticket's cell and that context's column
pub record Part (A F R : Type 0) : Type 0 where
  pub cell : Cell A F R
  pub column : Column F

pub record Bench (A F R : Type 0) : Type 0 where
  pub part : Part A F R
  pub hand : Option (Hand A F)

-- Where an Enter goes: to the line here; to a context that is born here; on to a mark's host; or it waits for a Land.
pub data Route : Type 0 where
  Deliver Born Wait : Route
  Forward : ℕ → Route

abbrev pub route_by : Option Mark → ℕ → Route
route_by (Some m) followed = if nat_lt followed m.number then Forward m.to else Wait
route_by None followed = if nat_eq followed 0 then Born else Wait

abbrev pub route : {F : Type 0} → Column F → ℕ → ℕ → Route
route c host followed = if is_some (c.store host) then Deliver else route_by (c.gone host) followed

-- May it join those that hold the context? They are none; or it and all of them only look.
abbrev pub may_join : Bool → List Claim → Bool
may_join true holders = list_all (λ c. c.peek) holders
may_join false [] = true
may_join false (c ∷ holders) = false

-- those of other tickets
abbrev pub others : ℕ → List Claim → List Claim
others t holders = filter (λ c. not (c.ticket == t)) holders

abbrev pub ready_at : Status → Path → Bool
ready_at (Ready q) p = path_eq q p
ready_at _ p = false

module _ {F : Type 0} where
  abbrev pub with_entry : Column F → ℕ → Option (Entry F) → Column F
  with_entry c host e = record { store = set nat_eq c.store host e; gone = c.gone }

  -- the entry leaves this host's store for another host, as its move of this number
  abbrev pub column_left : Column F → ℕ → ℕ → ℕ → Column F
  column_left c host to number = record { store = set nat_eq c.store host None; gone = set nat_eq c.gone host (Some (record { to = to; number = number })) }

  -- and joins the store of the other one, where a mark is cleared
  abbrev pub column_joined : Column F → ℕ → Entry F → Column F
  column_joined c host e = record { store = set nat_eq c.store host (Some e); gone = set nat_eq c.gone host None }

  abbrev pub with_body : Entry F → Option (Record F) → Entry F
  with_body e body = record { body = body; holders = e.holders; served = e.served; waiting = e.waiting; moves = e.moves }

  abbrev pub with_holders : Entry F → List Claim → Entry F
  with_holders e holders = record { body = e.body; holders = holders; served = e.served; waiting = e.waiting; moves = e.moves }

  -- a claim waits under an entry number
  abbrev pub in_line : Entry F → ℕ → Claim → Entry F
  in_line e number c = record { body = e.body; holders = e.holders; served = e.served; waiting = set nat_eq e.waiting number (Some c); moves = e.moves }

  -- the claim under the next number gets in
  abbrev pub let_in : Entry F → Claim → Entry F
  let_in e c = record { body = e.body; holders = e.holders ++ c ∷ []; served = suc e.served; waiting = set nat_eq e.waiting (suc e.served) None; moves = e.moves }

-- What a Start takes of a record, and what it leaves: of what only looks, a copy of the fields without children.
abbrev pub seen_by : {F : Type 0} → Bool → Record F → Record F
seen_by true b = record { fields = b.fields; children = [] }
seen_by false b = b

abbrev pub left_by : {F : Type 0} → Bool → Record F → Option (Record F)
left_by true b = Some b
left_by false b = None

-- the mail of this number, where it is for this host and path
abbrev pub mail_for : {F : Type 0} → ℕ → Path → Option (Mail F) → Option (Letter F)
mail_for host p None = None
mail_for host p (Some m) = if (m.host == host) && path_eq m.path p then Some m.letter else None

module _ {A F R : Type 0} where
  abbrev pub letter_at : Cell A F R → ℕ → ℕ → Path → Option (Letter F)
  letter_at c k host p = mail_for host p (c.mails k)

  abbrev pub cell_of : Desk A F → Option R → Cell A F R
  cell_of d result = record { event = Some d.event; mails = d.mails; result = result }

  abbrev pub without_mail : Cell A F R → ℕ → Cell A F R
  without_mail c k = record { event = c.event; mails = set nat_eq c.mails k None; result = c.result }

  abbrev pub with_event : Cell A F R → Event A → Cell A F R
  with_event c e = record { event = Some e; mails = c.mails; result = c.result }

  -- Visit m, of m's host. m is a Visit or Back: the event is ready at m's path.
  abbrev pub visit : ℕ → Path → ℕ → Part A F R → Option (Part A F R)
  visit k p host x = do
    e ← x.cell.event
    m ← letter_at x.cell k host p
    only_if (is_coming m) (record { cell = with_event (without_mail x.cell k) (with_status e (Ready p)); column = x.column })

  -- Grant t, p, of the host that has p. The claim of t waits under served + 1, and it may join those that hold p: t holds p
  -- at this host, as a peek where it waits as one; served rises by one; ready.
  abbrev pub after_grant : Path → ℕ → Part A F R → Event A → Entry F → Claim → Part A F R
  after_grant p host x e en c = record {
    cell = with_event x.cell (record { actor = e.actor; held = insert_entry path_cmp e.held p (record { host = host; peek = c.peek }); sent = e.sent; status = Ready p });
    column = with_entry x.column host (Some (let_in en c));
  }

  abbrev pub grant : ℕ → Path → ℕ → Part A F R → Option (Part A F R)
  grant t p host x = do
    e ← x.cell.event
    en ← x.column.store host
    c ← en.waiting (suc en.served)
    only_if ((c.ticket == t) && may_join c.peek en.holders) (after_grant p host x e en c)

  -- Start t, p, of p's host. t is ready at p: the actor goes into the worker's hand, and with it the record, or, where t holds
  -- p as a peek, a copy of its fields without children; running.
  abbrev pub after_start : ℕ → Path → ℕ → Part A F R → Event A → Entry F → A → Record F → Bench A F R
  after_start t p host x e en a b = record {
    part = record {
      cell = with_event x.cell (record { actor = None; held = e.held; sent = e.sent; status = Running p });
      column = with_entry x.column host (Some (with_body en (left_by (holds_as_peek e.held p) b)));
    };
    hand = Some (record { ticket = t; path = p; actor = a; body = seen_by (holds_as_peek e.held p) b });
  }

  abbrev pub start : ℕ → Path → ℕ → Part A F R → Option (Bench A F R)
  start t p host x = do
    e ← x.cell.event
    en ← x.column.store host
    a ← e.actor
    b ← en.body
    only_if (ready_at e.status p) (after_start t p host x e en a b)

  -- Free m, of m's host. m is a Release: the entry of the path is no longer held by m's ticket.
  abbrev pub free : ℕ → ℕ → Path → ℕ → Part A F R → Option (Part A F R)
  free t k p host x = do
    en ← x.column.store host
    m ← letter_at x.cell k host p
    only_if (is_release m) (record { cell = without_mail x.cell k; column = with_entry x.column host (Some (with_holders en (others t en.holders))) })

  -- Pass m, of m's host. m is an Enter whose route is Forward: it goes to the mark's host and has followed the mark's number.
  abbrev pub passed_on : ℕ → ℕ → Path → Part A F R → Ask → Option Mark → Route → Option (Part A F R)
  passed_on k g p x a (Some m) (Forward to) =
      only_if (g == to) (record {
        cell = record { event = x.cell.event; mails = set nat_eq x.cell.mails k (Some (record { host = g; path = p; letter = Enter (record { number = a.number; followed = m.number; peek = a.peek }) })); result = x.cell.result };
        column = x.column;
      })
  passed_on k g p x a _ _ = None

  abbrev pub pass : ℕ → Path → ℕ → ℕ → Part A F R → Option (Part A F R)
  pass k p g host x = do
    m ← letter_at x.cell k host p
    a ← ask_in m
    passed_on k g p x a (x.column.gone host) (route x.column host a.followed)

  -- Land m, of m's host. m is a Transfer: the entry joins the store and isn't held; a mark here for the path is cleared.
  abbrev pub land : ℕ → Path → ℕ → Part A F R → Option (Part A F R)
  land k p host x = do
    m ← letter_at x.cell k host p
    en ← entry_in m
    Some (record { cell = without_mail x.cell k; column = column_joined x.column host (with_holders en []) })

-- the child's record, new or not
abbrev pub child_or_new : Option Child → ℕ → Child
child_or_new (Some c) host = c
child_or_new None host = record { given = 0; birth = record { 0 = host } }

abbrev pub host_or : Option Hold → ℕ → ℕ
host_or (Some x) host = x.host
host_or None host = host

abbrev pub moved_on : {F : Type 0} → Entry F → Entry F
moved_on en = record { body = en.body; holders = en.holders; served = en.served; waiting = en.waiting; moves = suc en.moves }

module _ {A F : Type 0} where
  -- Stop t, p, of p's host. This worker runs t at p: the actor and the record are put back as the segment left them, and what
  -- follows goes by its pause. The desk is that of the event with its actor put back, travelling; `en` is the entry without
  -- its record, `f` and `cs` are the fields and the children to put back.
  -- Into a child q that t holds: a Visit goes to q's host.
  -- Into a child q that t doesn't hold: the child's `given` rises by one, born here where it is new; an Enter with that number goes to where it was born.
  abbrev pub into_child : Path → ℕ → Desk A F → Entry F → F → List (Step × Child) → Step → Bool → Option Hold → Desk A F × Entry F
  into_child p host d en f cs s peek (Some x) = (
    send d (record { host = x.host; path = p ++ s ∷ []; letter = Letter.Visit }),
    with_body en (Some (record { fields = f; children = cs })),
  )
  into_child p host d en f cs s peek None =
      let c : Child = child_or_new (child_at cs s) host in (
        send d (record { host = c.birth.0; path = p ++ s ∷ []; letter = Enter (record { number = suc c.given; followed = 0; peek = peek }) }),
        with_body en (Some (record { fields = f; children = with_child cs s (record { given = suc c.given; birth = c.birth }) })),
      )

  -- Go: as for a call, and then all is released that is held outside the child's subtree.
  abbrev pub keep_below : Path → Desk A F × Entry F → Desk A F × Entry F
  keep_below q y = (give_up (is_above q) y.0, y.1)

  -- Over: all is released; the result goes to the head; ended.
  abbrev pub after_end : Desk A F → Desk A F
  after_end d = give_up nothing_kept (record { event = with_status d.event Ended; mails = d.mails })

module _ {A F R : Type 0} where
  abbrev pub put_back : Part A F R → ℕ → Desk A F × Entry F → Part A F R
  put_back x host y = record { cell = cell_of y.0 x.cell.result; column = with_entry x.column host (Some y.1) }

  abbrev pub over_here : Part A F R → ℕ → Desk A F → Entry F → R → Part A F R
  over_here x host d en r = record { cell = cell_of (after_end d) (Some r); column = with_entry x.column host (Some en) }

  -- Over with a move to another host: the entry leaves the store, its `moves` rises by one, a mark replaces any mark here, and
  -- a Transfer carries the entry; what else is held is released.
  abbrev pub over_there : Path → Part A F R → ℕ → Desk A F → Entry F → R → ℕ → Part A F R
  over_there p x host d en r g = record {
    cell = cell_of (after_end (send (record { event = with_held d.event (kept_of (not_at p) d.event.held); mails = d.mails }) (record { host = g; path = p; letter = Transfer (moved_on en) }))) (Some r);
    column = column_left x.column host g (suc en.moves);
  }

  abbrev pub over_by : Path → Part A F R → ℕ → Desk A F → Entry F → R → Option (Path × ℕ) → Part A F R
  over_by p x host d en r None = over_here x host d en r
  over_by p x host d en r (Some m) = if m.1 == host then over_here x host d en r else over_there p x host d en r m.1

  -- What only looks puts no record back, and ends there.
  abbrev pub after_look : Part A F R → ℕ → Desk A F → Entry F → Pause R → Option (Part A F R)
  after_look x host d en (Over r) = Some (over_here x host d en r)
  after_look x host d en _ = None

  abbrev pub desk_back : Cell A F R → Event A → A → Desk A F
  desk_back c e a = record { event = record { actor = Some a; held = e.held; sent = e.sent; status = Travelling }; mails = c.mails }

  -- what a Queue leaves
  abbrev pub after_queue : ℕ → ℕ → Path → ℕ → Part A F R → Event A → Ask → Entry F → Part A F R
  after_queue t k p host x e a en = record {
    cell = with_event (without_mail x.cell k) (with_status e (Waiting p));
    column = with_entry x.column host (Some (in_line en a.number (record { ticket = t; peek = a.peek })));
  }

  -- what a label leaves, with this in the hand
  abbrev pub with_hand : Option (Hand A F) → Option (Part A F R) → Option (Bench A F R)
  with_hand g o = option_map (λ x. record { part = x; hand = g }) o

module _ {A F R J : Type 0} where
  -- what a label of the ticket on the context finds, and the state with what it leaves
  abbrev pub part_of : State A F R J → ℕ → Path → Part A F R
  part_of s t p = record { cell = s.cells t; column = s.columns p }

  abbrev pub with_bench : State A F R J → ℕ → Path → ℕ → Bench A F R → State A F R J
  with_bench s t p w y = record {
    before = s.before;
    head = s.head;
    admitted = s.admitted;
    cells = set nat_eq s.cells t y.part.cell;
    columns = set path_eq s.columns p y.part.column;
    hands = set nat_eq s.hands w y.hand;
  }

  abbrev pub next_ticket : State A F R J → ℕ
  next_ticket s = suc (s.before + s.admitted)

module _ {A F R J : Type 0} (sys : Actors A F R J) where
  abbrev pub new_entry : Path → Entry F
  new_entry p = record { body = Some (record { fields = sys.initial p; children = [] }); holders = []; served = 0; waiting = λ j. None; moves = 0 }

  -- Queue m, of m's host. m is an Enter whose route is Deliver or Born: Born first makes the entry; the ticket waits under its
  -- entry number, as a peek where m says so; waiting.
  abbrev pub entry_for : Path → ℕ → Column F → Route → Option (Entry F)
  entry_for p host c Deliver = c.store host
  entry_for p host c Born = Some (new_entry p)
  entry_for p host c Wait = None
  entry_for p host c (Forward g) = None

  abbrev pub queue : ℕ → ℕ → Path → ℕ → Part A F R → Option (Part A F R)
  queue t k p host x = do
    e ← x.cell.event
    m ← letter_at x.cell k host p
    a ← ask_in m
    en ← entry_for p host x.column (route x.column host a.followed)
    Some (after_queue t k p host x e a en)

  abbrev pub after_pause : Path → ℕ → Part A F R → Desk A F → Entry F → F → List (Step × Child) → Bool → Pause R → Part A F R
  after_pause p host x d en f cs peek (Go s) = put_back x host (keep_below (p ++ s ∷ []) (into_child p host d en f cs s peek (hold_at d.event.held (p ++ s ∷ []))))
  after_pause p host x d en f cs peek (Down s) = put_back x host (into_child p host d en f cs s false (hold_at d.event.held (p ++ s ∷ [])))
  after_pause p host x d en f cs peek Back = put_back x host (send d (record { host = host_or (hold_at d.event.held (parent_of p)) host; path = parent_of p; letter = Letter.Back }), with_body en (Some (record { fields = f; children = cs })))
  after_pause p host x d en f cs peek (Over r) = over_by p x host d (with_body en (Some (record { fields = f; children = cs }))) r (sys.moved r)

  abbrev pub after_stop : Path → ℕ → Part A F R → Desk A F → Entry F → List (Step × Child) → Left A F R → Bool → Option (Part A F R)
  after_stop p host x d en cs y true = after_look x host d en y.pause
  after_stop p host x d en cs y false = Some (after_pause p host x d en y.fields cs (sys.peeks y.actor) y.pause)

  abbrev pub segment_of : Hand A F → Left A F R
  segment_of g = sys.segment g.actor g.body.fields (steps_of g.body.children)

  abbrev pub stop : Path → ℕ → Hand A F → Part A F R → Option (Part A F R)
  stop p host g x = do
    e ← x.cell.event
    en ← x.column.store host
    after_stop p host x (desk_back x.cell e (segment_of g).actor) en g.body.children (segment_of g) (holds_as_peek e.held p)

  -- the labels that leave the hand
  abbrev pub calm : Act → ℕ → Part A F R → Option (Part A F R)
  calm (Queue t k p) host x = queue t k p host x
  calm (Grant t p) host x = grant t p host x
  calm (Visit t k p) host x = visit k p host x
  calm (Free t k p) host x = free t k p host x
  calm (Pass t k p g) host x = pass k p g host x
  calm (Land t k p) host x = land k p host x
  calm _ host x = None

  -- a worker is idle where its hand is empty, and each label but Stop wants an idle one
  abbrev pub act_bench : Act → ℕ → Part A F R → Option (Hand A F) → Option (Bench A F R)
  act_bench (Stop t p) host x (Some g) = if (g.ticket == t) && path_eq g.path p then with_hand None (stop p host g x) else None
  act_bench (Stop t p) host x None = None
  act_bench (Start t p) host x None = start t p host x
  act_bench (Start t p) host x (Some g) = None
  act_bench a host x None = with_hand None (calm a host x)
  act_bench a host x (Some g) = None

  -- Admit t, on host 0. t is the next ticket and its job is known: the actor is made, travelling; an Enter to the root with
  -- entry number t goes to host 0, as a peek where the actor only looks.
  abbrev pub new_cell : A → ℕ → Cell A F R
  new_cell a t = record {
    event = Some (record { actor = Some a; held = []; sent = 1; status = Travelling });
    mails = set nat_eq (λ k. None) 1 (Some (record { host = 0; path = []; letter = Enter (record { number = t; followed = 0; peek = sys.peeks a }) }));
    result = None;
  }

  abbrev pub after_admit : State A F R J → ℕ → J → State A F R J
  after_admit s t j = record {
    before = s.before;
    head = s.head;
    admitted = suc s.admitted;
    cells = set nat_eq s.cells t (new_cell (sys.make j t) t);
    columns = s.columns;
    hands = s.hands;
  }

  abbrev pub admit : State A F R J → ℕ → ℕ → Option (State A F R J)
  admit s host t = do
    j ← slice_get s.head.known s.admitted
    only_if ((host == 0) && (t == next_ticket s)) (after_admit s t j)

  -- Commit t, on host 0. t is the next to commit and has a result: the jobs that it creates get the next tickets; where all
  -- known jobs are committed, the next batch's become known.
  abbrev pub after_commit : State A F R J → R → State A F R J
  after_commit s r = record { before = s.before; head = with_done s.head (sys.created r); admitted = s.admitted; cells = s.cells; columns = s.columns; hands = s.hands }

  abbrev pub commit : State A F R J → ℕ → ℕ → Option (State A F R J)
  commit s host t = do
    r ← (s.cells t).result
    only_if ((host == 0) && (t == suc (s.before + s.head.done))) (after_commit s r)

  -- what the act at a host leads to, taken by a worker
  abbrev pub step_by : State A F R J → ℕ → ℕ → Act → Option (State A F R J)
  step_by s w host (Admit t) = if is_none (s.hands w) then admit s host t else None
  step_by s w host (Commit t) = if is_none (s.hands w) then commit s host t else None
  step_by s w host a = option_map (λ y. with_bench s (ticket_of a) (path_of a) w y) (act_bench a host (part_of s (ticket_of a) (path_of a)) (s.hands w))

  -- the state after a label, where it is enabled; the workers are those below `workers`
  unfoldable pub step : ℕ → State A F R J → Label → Option (State A F R J)
  step workers s l = if nat_lt l.worker workers then step_by s l.worker l.host l.act else None
