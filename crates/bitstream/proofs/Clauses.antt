-- A fact of two or three parts, as the clauses of a contract that has a name for each. Assumes nothing.

pub two : {A B C : Type 0} → (A → B → C) → A × B → C
two f t = f t.0 t.1

pub three : {A B C D : Type 0} → (A → B → C → D) → A × B × C → D
three f t = f t.0 t.1 t.2
